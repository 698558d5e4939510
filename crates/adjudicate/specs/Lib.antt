pub mod Settling
pub mod RecordEnds
pub mod Differing
pub mod Audits
pub mod OrderedTexts
