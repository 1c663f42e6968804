mod JudgedWaits
mod StaysOfNumbers
mod CarouselLayout
mod CarouselPlans
mod CarouselRounds
