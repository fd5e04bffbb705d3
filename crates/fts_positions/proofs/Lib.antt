pub mod PackedLemmas
pub mod UnpackedLemmas
pub mod SeekLemmas
