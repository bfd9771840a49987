mod Rooms
mod Inlines
