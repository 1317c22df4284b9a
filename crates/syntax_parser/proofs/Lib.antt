mod Reading
mod Stopping
