mod Digits
mod SaidInfo
mod WrittenInfo
mod ReadableInfo
