-- What is left of the proof of `syntax_of`.
use Rattle.std.proofs.Common.{ℕ, List, Option, Some, None, inl, inr, refl, subst}
use Rattle.fts_query.specs.Outcomes.{TellsSyntax}
use Rattle.fts_c.proofs.syntax_of.Goals as goal

pub returns-in-Some : goal.returns-in-Some
returns-in-Some c = inl (
  c.in-Ok.ensures.cases.1,
  subst (λ (bytes : List ℕ). TellsSyntax bytes (Some c.in-Some.byte)) c.in-Ok.ensures.cases.0
      (subst (λ (at : Option ℕ). TellsSyntax c.in-Ok.text.now at) c.in-Some.is c.in_ok-byte-in-Ok.ensures),
)

pub returns-in-None : goal.returns-in-None
returns-in-None c = inr (
  refl,
  λ _. subst (λ (bytes : List ℕ). TellsSyntax bytes None) c.in-Ok.ensures.cases.0
      (subst (λ (at : Option ℕ). TellsSyntax c.in-Ok.text.now at) c.in-None.is c.in_ok-byte-in-Ok.ensures),
)
