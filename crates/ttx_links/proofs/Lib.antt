mod LinksOneByOne
mod Magazines
mod Receptions
mod SaidLinks
mod WrittenLinks
mod ReadableLinks
mod ExactLinks
mod SentLinks
