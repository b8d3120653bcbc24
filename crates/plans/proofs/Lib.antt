mod Lexed
mod Reading
