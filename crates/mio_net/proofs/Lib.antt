mod Chances
mod Waiting
