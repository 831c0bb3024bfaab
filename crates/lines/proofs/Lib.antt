mod Newlines
mod Numbers
mod Sorting
