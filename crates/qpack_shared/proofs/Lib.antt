pub mod SentBytes
