mod Choices
mod OneEnd
mod Refused
