mod Best
mod Chosen
