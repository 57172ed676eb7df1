mod Numbers
mod Reported
