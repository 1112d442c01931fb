pub mod AreFewSlots
