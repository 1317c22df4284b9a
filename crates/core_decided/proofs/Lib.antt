mod Combining
mod Counting
mod Cutting
mod Deciding
mod Declaring
mod Listing
mod Timing
mod Walking
