pub mod Transcripts
pub mod Words
pub mod Audits
pub mod AuditText
pub mod Sound
pub mod Examining
pub mod Keeping
pub mod Examples
