mod Listed
mod Written
