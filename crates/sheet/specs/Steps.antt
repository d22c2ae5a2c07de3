-- Steps: what the library's functions say to each other and to the proofs, here how the reader goes through the bytes, and what is known of a sheet that was read. No contract of a public call cites it.
pub mod Numbers
pub mod Sections
pub mod Parsed
pub mod Held
