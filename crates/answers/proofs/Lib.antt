-- The laws of fields that are noted.
mod Noting
