mod Runs
mod Says
