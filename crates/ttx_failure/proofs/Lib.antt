mod Tellable
mod Permitted
