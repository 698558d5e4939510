pub mod Number
pub mod NumberText
pub mod Out
pub mod Reading
pub mod Money
pub mod BufferedOut
