pub mod ExitStatus
pub mod Limits
pub mod Reading
pub mod AtomicTarget
pub mod Forms
