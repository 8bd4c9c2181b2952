mod Built
mod OneAnswer
mod Read
