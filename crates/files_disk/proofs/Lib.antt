mod Known
mod Filling
mod Slashes
