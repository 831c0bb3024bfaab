mod Commands
mod Cuts
mod Drives
mod Numbers
mod Places
