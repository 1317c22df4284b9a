mod Noting
mod Marking
mod Telling
