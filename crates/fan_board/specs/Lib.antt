pub mod BoardCommands
pub mod Boards
pub mod PacketLines
pub mod Served
