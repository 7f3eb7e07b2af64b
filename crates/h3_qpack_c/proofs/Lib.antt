mod Sizes
mod StaticNumbers
mod Told
