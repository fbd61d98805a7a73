-- Laws of numbers as text and of text put behind text, and what is printed in two cases.
mod Text
mod Printed
