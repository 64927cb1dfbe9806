pub mod PacketAnswer
pub mod Handed
pub mod When
