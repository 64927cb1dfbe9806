pub mod PacketRead
