pub mod Spin
pub mod SpinShown
pub mod Ticket
pub mod Steps
pub mod TicketShown
pub mod Laws
pub mod Later
