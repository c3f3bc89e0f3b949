mod Posting
mod Taking
