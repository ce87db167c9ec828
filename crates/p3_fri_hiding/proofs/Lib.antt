mod Refused
mod NewData
mod Read
mod Traced
mod Committed
mod QuotientsHeld
mod Domains
