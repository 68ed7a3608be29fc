pub mod Agreeing
mod Bits
mod Timers
mod Edges
mod Counters
