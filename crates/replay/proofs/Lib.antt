mod Words
mod Reading
mod CallLines
mod SheetLines
