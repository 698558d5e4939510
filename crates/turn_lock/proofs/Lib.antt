pub mod Views
pub mod SpinMoves
pub mod TicketViews
pub mod TicketWords
pub mod TicketValues
pub mod TicketMoves
pub mod TicketLater
