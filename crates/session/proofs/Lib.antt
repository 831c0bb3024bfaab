mod Askings
mod HexDigits
