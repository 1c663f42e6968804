mod FilledHeaders
mod SetAside
mod KeptPages
mod LeftPages
