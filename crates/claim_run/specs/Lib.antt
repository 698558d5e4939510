pub mod RunText
pub mod RunStop
