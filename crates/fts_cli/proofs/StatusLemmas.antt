-- The outcome that an exit status means.
use Rattle.std.proofs.Common.{◌≡◌, ◌≢◌, refl, arith, Result, Ok, Err, OnOk, OnErr, IsErrOf, ◌⊎◌, inl, inr}
use Rattle.fts_script.specs.declared.fault.Fault.{Fault}
use Rattle.fts_script.specs.declared.fault.Fault.TheVariants.{Memory, Read, Write, StampsUsedUp}
use Rattle.fts_cli.specs.Arguments.{run_status_of}

pub of_end : {T : Type 0} (r : Result T Fault) (P : Type 0) → run_status_of r ≡ 0 → OnOk r P → P
of_end (Ok v) P e h = h
of_end (Err Memory) P e h = absurd (omega arith)
of_end (Err Read) P e h = absurd (omega arith)
of_end (Err Write) P e h = absurd (omega arith)
of_end (Err StampsUsedUp) P e h = absurd (omega arith)

pub of_stop : {T : Type 0} (r : Result T Fault) (P : Type 0) → run_status_of r ≢ 0 → OnErr r P → P
of_stop (Ok v) P e h = absurd (e refl)
of_stop (Err fault) P e h = h

pub of_memory : {T : Type 0} (r : Result T Fault) → run_status_of r ≡ 3 → IsErrOf r Memory
of_memory (Ok v) e = absurd (omega arith)
of_memory (Err Memory) e = refl
of_memory (Err Read) e = absurd (omega arith)
of_memory (Err Write) e = absurd (omega arith)
of_memory (Err StampsUsedUp) e = absurd (omega arith)

pub of_failed : {T : Type 0} (r : Result T Fault) → run_status_of r ≡ 4 → IsErrOf r Write ⊎ IsErrOf r Read
of_failed (Ok v) e = absurd (omega arith)
of_failed (Err Memory) e = absurd (omega arith)
of_failed (Err Read) e = inr refl
of_failed (Err Write) e = inl refl
of_failed (Err StampsUsedUp) e = absurd (omega arith)

pub of_used_up : {T : Type 0} (r : Result T Fault) → run_status_of r ≡ 5 → IsErrOf r StampsUsedUp
of_used_up (Ok v) e = absurd (omega arith)
of_used_up (Err Memory) e = absurd (omega arith)
of_used_up (Err Read) e = absurd (omega arith)
of_used_up (Err Write) e = absurd (omega arith)
of_used_up (Err StampsUsedUp) e = refl
