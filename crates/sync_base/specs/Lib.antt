pub mod Fault
pub mod Flags
pub mod Note
pub mod NoteSet
pub mod Pipe
pub mod PipeLaws
pub mod PlainPipe
pub mod Write
