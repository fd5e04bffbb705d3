-- The lemmas.
pub mod PublicationsLemmas
pub mod PublicationsStepsLemmas
pub mod PublicationsShownLemmas
pub mod CommitJobLemmas
pub mod WriterLemmas
pub mod SearchJobLemmas
