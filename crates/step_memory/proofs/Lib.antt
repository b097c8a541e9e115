pub mod RoomLemmas
pub mod PageLemmas
pub mod StoreLemmas
