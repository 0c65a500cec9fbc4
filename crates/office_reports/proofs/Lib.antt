mod RoomLemmas
mod SlotLemmas
