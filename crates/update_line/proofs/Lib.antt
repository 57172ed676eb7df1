mod AnswersTaken
mod Numbers
