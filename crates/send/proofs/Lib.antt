-- Laws of the arguments.
mod Digits
mod Option
mod Sheet
