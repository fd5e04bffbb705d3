use Rattle.std.proofs.Common.{◌≡◌, ◌⊎◌, inl, inr, Option, Some, None, Err, refl, ap, sym}
use Rattle.fts_base.specs.declared.refusal.Refusal.{Refusal}
use Rattle.fts_base.specs.declared.refusal.Refusal.TheVariants.{Memory}
use Rattle.fts_base.specs.Results.{ok_unless}
use Rattle.fts_model.specs.Schemas.{schema_fault}
use Rattle.fts_engine.specs.Indexes.{Index}
use Rattle.fts_script.specs.session.Replies.{Outcome}
use Rattle.fts_script.proofs.session.commands.open.Goals as goal

cause : (o : Option Refusal) (x : Outcome Index) (e : Refusal) → ((fault : Refusal) → o ≡ Some fault → e ≡ fault) → (o ≡ None → e ≡ Memory)
    → (e ≡ Memory) ⊎ (ok_unless o x ≡ Err e)
cause None x e found none = inl (none refl)
cause (Some fault) x e found none = inr (ap Err (sym (found fault refl)))

pub returns-in-Err-clause-does : goal.returns-in-Err-clause-does
returns-in-Err-clause-does g c = (c.requires, cause (schema_fault c.args.fields.items) _ c.in-Err.refusal c.in-Err.ensures.refused c.in-Err.ensures.memory)
