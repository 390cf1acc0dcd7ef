-- The laws of requests and answers, and what an answer means.
pub mod Meaning
mod Requests
mod Answering
pub mod Witness
