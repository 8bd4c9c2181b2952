mod AnsweredOnce
mod Chosen
mod ChosenOnce
mod Exported
mod Given
mod Said
mod Told
