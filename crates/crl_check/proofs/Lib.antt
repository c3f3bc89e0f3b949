mod Prefixes
mod Texts
