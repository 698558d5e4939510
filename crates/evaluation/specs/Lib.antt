pub mod Arguments
pub mod ValueText
pub mod Stop
