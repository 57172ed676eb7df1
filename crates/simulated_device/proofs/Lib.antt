mod Changed
mod Numbers
mod WorkedAnswers
