mod PageOften
mod RaisedPages
mod LatestPromise
mod KeptPromises
mod PlanAnswers
mod Steps
mod Improvements
