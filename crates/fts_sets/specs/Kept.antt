-- Those of some documents that pass a test, at the front of what they lay in.
use Rattle.std.specs.Prelude.{◌≡◌, ℕ, ◌≤◌, Bool, List, filter, length, take}

-- those documents before an end that pass are at the front now
pub record IsKept (test : ℕ → Bool) (end : ℕ) (old new : List ℕ) (kept : ℕ) : Type 0 where
  pub front : take kept new ≡ filter test (take end old)
  pub size : kept ≡ length (filter test (take end old))
  pub high : kept ≤ end
