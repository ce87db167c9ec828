mod Each
mod Fitting
mod Fresh
mod LargerDomains
mod Maskable
