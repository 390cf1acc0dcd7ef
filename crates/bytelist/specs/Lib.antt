-- Lists of bytes of a fixed room.
pub mod Items
