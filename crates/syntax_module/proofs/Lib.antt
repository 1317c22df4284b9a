mod Rules
mod Turns
